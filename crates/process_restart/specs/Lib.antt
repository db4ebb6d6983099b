pub mod Own
pub mod Restarts
