pub mod Files
pub mod Loading
pub mod Packing
pub mod SoakScripts
pub mod Worked
