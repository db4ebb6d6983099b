pub mod Situation
pub mod Status
pub mod RoundRobin
pub mod Parts
pub mod Laws
pub mod Turns
