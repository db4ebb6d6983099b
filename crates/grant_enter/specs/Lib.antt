pub mod Homes
pub mod Housed
pub mod Lent
