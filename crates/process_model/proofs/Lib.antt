mod Pairs
pub mod Changes
pub mod Scheduling
