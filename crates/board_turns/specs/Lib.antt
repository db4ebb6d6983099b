pub mod AfterCalls
pub mod Guards
pub mod Turning
pub mod Quiet
pub mod Operating
pub mod Machines
pub mod ReadySlots
