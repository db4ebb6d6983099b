mod Rotation
pub mod Found
mod Passing
mod Made
mod Remaining
mod Ticks
mod Worked
