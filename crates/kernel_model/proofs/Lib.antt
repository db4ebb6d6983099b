pub mod Told
pub mod Places
pub mod Labels
pub mod Memops
pub mod Classes
pub mod Restarts
pub mod Lines
pub mod Yields
pub mod Calling
pub mod Turning
pub mod Comes
pub mod Refusals
pub mod Runs
pub mod Handed
pub mod Replays
pub mod Accesses
mod Filter
pub mod Steps
pub mod Values
pub mod Commands
pub mod Beside
mod Worked
pub mod Console
