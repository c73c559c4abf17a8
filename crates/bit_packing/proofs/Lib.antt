pub mod Bytes
pub mod Packing
mod Whole
