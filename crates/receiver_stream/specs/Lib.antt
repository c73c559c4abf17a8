pub mod Feed
pub mod History
pub mod Reporting
