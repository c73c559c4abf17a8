pub mod Xors
mod Run
mod Sixteens
pub mod Laws
pub mod Whole
