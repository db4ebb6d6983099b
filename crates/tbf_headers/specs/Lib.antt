pub mod Numbers
pub mod Tlv
pub mod Permissions
pub mod Meaning
pub mod Shown
pub mod Addresses
pub mod Objects
pub mod Parts
