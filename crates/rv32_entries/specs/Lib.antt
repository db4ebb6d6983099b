pub mod Registers
pub mod Entries
pub mod Fetched
pub mod Standing
