pub mod Converter
pub mod Stream
pub mod Step
pub mod Encode
pub mod Groups
