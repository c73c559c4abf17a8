pub mod Pass
pub mod Calls
