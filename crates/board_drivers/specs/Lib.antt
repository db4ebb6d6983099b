pub mod Driven
pub mod Calm
pub mod Tells
pub mod Parts
