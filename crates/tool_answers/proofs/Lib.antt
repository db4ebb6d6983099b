pub mod Accounts
pub mod Decided
pub mod Serving
pub mod Tasks
