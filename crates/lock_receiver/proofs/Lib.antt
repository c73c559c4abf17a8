pub mod Settling
pub mod Ranges
pub mod Taking
pub mod Meaning
pub mod Calls
pub mod Histories
pub mod Promises
