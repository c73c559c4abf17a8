pub mod List
pub mod Watch
pub mod Feed
pub mod Block
pub mod History
pub mod Run
pub mod Promise
