pub mod Field
pub mod Polynomial
