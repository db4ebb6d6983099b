pub mod Tables
pub mod Acting
pub mod Commands
pub mod Sight
pub mod Turns
pub mod Quiet
pub mod Stopped
mod Staying
mod Replies
pub mod Denied
pub mod TurnsKept
pub mod Counted
