pub mod Waiting
pub mod Asking
pub mod Answers
pub mod Begins
pub mod Visits
