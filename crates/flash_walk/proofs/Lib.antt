mod Objects
pub mod Walks
