pub mod Asked
pub mod Crews
pub mod Openings
pub mod Alone
pub mod Boots
