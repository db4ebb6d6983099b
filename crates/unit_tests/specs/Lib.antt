pub mod Areas
pub mod SmallMemory
