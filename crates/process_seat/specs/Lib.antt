pub mod Places
pub mod Windows
pub mod Seats
pub mod Seen
pub mod Visits
pub mod Buffers
