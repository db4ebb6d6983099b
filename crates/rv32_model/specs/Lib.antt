pub mod AtHand
pub mod Compressed
pub mod Instructions
pub mod Laws
pub mod UserTurn
pub mod Worked
pub mod Stretch
