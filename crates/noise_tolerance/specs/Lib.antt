pub mod Harm
pub mod Noise
pub mod Table
