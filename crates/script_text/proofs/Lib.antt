pub mod TextLemmas
pub mod Steps
pub mod HexDigits
pub mod Said
pub mod Sound
pub mod Rules
pub mod Adding
pub mod Faults
mod Worked
