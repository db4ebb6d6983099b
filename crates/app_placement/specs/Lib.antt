pub mod Applications
pub mod Placement
pub mod Parts
