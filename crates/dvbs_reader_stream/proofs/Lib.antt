pub mod States
mod Parts
mod Feeding
pub mod Laws
pub mod Passes
