pub mod Scale
pub mod Delay
pub mod Code
