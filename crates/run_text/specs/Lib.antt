pub mod RunText
pub mod Tallies
pub mod Parts
