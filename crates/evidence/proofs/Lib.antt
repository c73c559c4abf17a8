pub mod Hold
pub mod Decoding
mod Samples
pub mod Sending
pub mod Receiving
