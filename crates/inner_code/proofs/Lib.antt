pub mod Converter
pub mod Coder
pub mod Stream
pub mod Groups
