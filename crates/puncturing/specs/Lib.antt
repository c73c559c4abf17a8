pub mod Mode
pub mod WellFormed
pub mod Step
pub mod Run
