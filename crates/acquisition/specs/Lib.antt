pub mod Reading
pub mod Step
pub mod End
pub mod Bits
