mod Takes
pub mod Passes
pub mod Laws
