mod Bits
pub mod Ranks
mod Puts
mod Stores
