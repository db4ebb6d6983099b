mod Objects
mod Sizes
pub mod Readings
pub mod Renames
pub mod Walked
pub mod Sound
pub mod Edited
pub mod Moves
pub mod Packing
pub mod Contents
pub mod Likeness
pub mod Headers
mod Checksums
mod Words
mod Called
mod Worked
