pub mod Walk
pub mod Places
pub mod Costs
pub mod Fresh
pub mod Below
