pub mod Turns
pub mod Ambiguity
