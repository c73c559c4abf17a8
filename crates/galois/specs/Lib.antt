pub mod Field256
pub mod Lanes
