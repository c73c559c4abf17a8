pub mod Steps
pub mod Cost
pub mod Level
pub mod SoftPairs
