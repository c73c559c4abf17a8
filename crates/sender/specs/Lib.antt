pub mod Standard
pub mod Input
pub mod Send
pub mod Calls
