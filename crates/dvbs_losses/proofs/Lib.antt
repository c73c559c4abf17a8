pub mod Lists
pub mod Turning
