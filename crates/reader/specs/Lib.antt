pub mod Clear
pub mod Cost
pub mod Decisions
pub mod Read
pub mod Runs
