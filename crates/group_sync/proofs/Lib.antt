pub mod Synchronization
pub mod Streams
