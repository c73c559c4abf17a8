pub mod Copies
pub mod Fields
pub mod States
pub mod Calls
