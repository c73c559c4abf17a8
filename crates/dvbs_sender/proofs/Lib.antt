pub mod States
mod Sends
pub mod Laws
pub mod Passes
