pub mod Entries
pub mod Check
pub mod Spans
pub mod Windows
