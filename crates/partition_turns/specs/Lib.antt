pub mod LanesView
pub mod Lanes
pub mod Windows
pub mod Laws
pub mod Turns
