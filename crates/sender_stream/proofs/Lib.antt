mod Counts
mod Progress
pub mod Laws
pub mod History
mod Counting
pub mod Buffers
mod RunProgress
mod Outcome
