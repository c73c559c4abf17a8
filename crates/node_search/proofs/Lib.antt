mod Numbers
mod Tables
mod Runs
mod Verdicts
mod Calls
pub mod Found
pub mod Truth
