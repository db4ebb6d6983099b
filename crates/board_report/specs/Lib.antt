pub mod FlashList
pub mod Report
pub mod Trace
pub mod Words
pub mod OwnWords
pub mod Parts
