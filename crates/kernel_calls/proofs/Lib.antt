pub mod Starts
pub mod AtOnce
pub mod Handed
pub mod Drivers
pub mod Lending
pub mod Pairs
