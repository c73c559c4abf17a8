mod Feeding
pub mod Laws
pub mod Passes
