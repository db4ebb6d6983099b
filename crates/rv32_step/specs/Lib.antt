pub mod Executed
pub mod Fetched
pub mod Near
pub mod Handling
