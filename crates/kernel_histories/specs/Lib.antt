pub mod Deliveries
pub mod Waits
pub mod Edges
pub mod Drops
pub mod Inboxes
