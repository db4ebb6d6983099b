pub mod Alike
pub mod Moments
pub mod Parts
pub mod Partitions
pub mod Windows
