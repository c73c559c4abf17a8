pub mod Places
pub mod BlockCounts
pub mod WellFormed
pub mod Steps
mod Run
mod Patterns
mod Rates
pub mod Parts
