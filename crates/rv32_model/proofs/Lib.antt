pub mod Lengths
pub mod Rows
mod Parcels
pub mod Sight
pub mod Stretch
pub mod Turns
mod Denials
pub mod Listed
