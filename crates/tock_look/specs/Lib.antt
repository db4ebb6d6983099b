pub mod Asks
pub mod Answers
pub mod Looks
pub mod Lines
pub mod Adding
pub mod Keeping
