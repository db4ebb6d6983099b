pub mod Accounts
pub mod Served
pub mod Parts
