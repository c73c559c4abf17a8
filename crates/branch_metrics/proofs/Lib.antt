pub mod Facts
pub mod Numbers
pub mod Runs
