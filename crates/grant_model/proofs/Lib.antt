pub mod Back
pub mod Spots
pub mod Windows
pub mod Pairs
pub mod Exchange
pub mod Values
pub mod Costs
