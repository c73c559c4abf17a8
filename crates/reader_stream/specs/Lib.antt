pub mod Runs
pub mod Stream
pub mod History
