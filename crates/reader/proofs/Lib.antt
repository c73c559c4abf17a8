mod Serial
pub mod Patterns
pub mod Costs
mod Existence
pub mod Unharmed
mod Whole
pub mod Decisions
pub mod SoftDecisions
pub mod Outcome
pub mod Reading
mod Calls
pub mod Laws
pub mod SoftLaws
pub mod Streams
