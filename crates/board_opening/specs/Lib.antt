pub mod Settings
pub mod Opening
pub mod Alone
pub mod Parts
pub mod Boot
pub mod Histories
pub mod Certified
