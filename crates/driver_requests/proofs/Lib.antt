pub mod Keeping
mod Busy
mod Room
mod Visiting
mod Found
