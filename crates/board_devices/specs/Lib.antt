pub mod Clock
pub mod SerialLine
pub mod Storage
pub mod Arriving
pub mod Buttons
pub mod Parts
