pub mod Received
pub mod Pass
