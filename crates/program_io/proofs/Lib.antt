pub mod Traces
mod Numerals
mod Texts
mod Reading
mod Writing
mod Giving
pub mod Answering
