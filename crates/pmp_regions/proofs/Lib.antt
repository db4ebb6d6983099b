pub mod Intervals
pub mod Lowest
pub mod Words
pub mod Windows
