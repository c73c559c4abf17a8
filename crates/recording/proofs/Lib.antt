pub mod Recordings
pub mod Joins
pub mod Decided
pub mod Returned
pub mod Blocks
pub mod AsReceiver
