pub mod Costs
pub mod Runs
pub mod Feeding
pub mod Histories
pub mod Unharmed
