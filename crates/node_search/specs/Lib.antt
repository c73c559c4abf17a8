pub mod Hypotheses
pub mod Weight
pub mod Search
pub mod Sent
