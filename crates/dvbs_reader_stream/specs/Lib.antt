pub mod State
pub mod Reading
pub mod Calls
pub mod Pass
