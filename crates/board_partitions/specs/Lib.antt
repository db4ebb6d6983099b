pub mod Boot
pub mod Scripts
