pub mod Bits
pub mod Code
pub mod Costs
pub mod Sweep
