pub mod Interval
pub mod LayoutView
pub mod Bounds
pub mod Ordered
pub mod Permission
