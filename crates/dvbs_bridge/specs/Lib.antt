pub mod Calls
pub mod Pass
