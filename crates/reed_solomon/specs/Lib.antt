pub mod Code
pub mod Encode
pub mod Decode
pub mod Steps
pub mod Marks
