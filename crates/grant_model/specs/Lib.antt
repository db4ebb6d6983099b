pub mod Grants
pub mod Encoding
pub mod Laws
