pub mod SmallMemory
