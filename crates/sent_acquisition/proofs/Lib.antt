pub mod Readings
pub mod Right
pub mod Sent
pub mod Acquired
pub mod Lasting
pub mod Whole
pub mod Mirror
