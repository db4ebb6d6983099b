pub mod Own
pub mod Outcomes
pub mod Given
pub mod Called
pub mod Lent
pub mod Residents
