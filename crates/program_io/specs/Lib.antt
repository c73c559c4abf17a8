pub mod Moving
pub mod Checksum
pub mod Files
pub mod Words
pub mod Calls
