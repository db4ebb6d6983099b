pub mod ByOpcode
mod Signs
