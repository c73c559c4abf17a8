pub mod Link
pub mod Sent
pub mod Places
pub mod Bursts
pub mod OneByteMore
pub mod Hold
