pub mod Windows
pub mod Blocks
mod Holding
pub mod Reseated
pub mod Breaks
pub mod Restarted
mod Regranted
mod Handed
mod Flags
pub mod Values
pub mod Buffers
mod Serving
mod Writing
pub mod Outcomes
mod Keeping
pub mod Alive
mod Entering
mod Wholes
