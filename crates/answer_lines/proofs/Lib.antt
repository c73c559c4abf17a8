mod Bounds
pub mod Lists
