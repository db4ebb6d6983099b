pub mod Emit
pub mod Process
pub mod Name
pub mod Summary
pub mod Operator
pub mod Lines
pub mod Parts
