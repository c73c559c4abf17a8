mod Products
pub mod Fractions
mod Progress
pub mod Decided
pub mod Histories
