pub mod Numbers
pub mod Cleared
