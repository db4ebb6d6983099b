pub mod Due
pub mod Answers
pub mod Times
