pub mod Inputs
pub mod Stages
pub mod Ready
pub mod Stream
pub mod History
pub mod Counts
pub mod Distinct
