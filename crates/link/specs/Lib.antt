pub mod Link
pub mod Places
pub mod Burst
pub mod Table
