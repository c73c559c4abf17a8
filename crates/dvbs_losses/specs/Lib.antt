pub mod Text
pub mod Ends
