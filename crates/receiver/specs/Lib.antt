pub mod Receive
pub mod Run
pub mod Begun
pub mod Kept
