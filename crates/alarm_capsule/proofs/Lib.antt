mod Firing
mod Living
mod Nearest
mod Showing
mod Slots
pub mod KeptTimes
mod First
