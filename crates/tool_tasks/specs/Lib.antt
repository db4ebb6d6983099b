pub mod Causes
pub mod Comes
pub mod Ready
pub mod Parts
pub mod RunFiles
pub mod Soak
