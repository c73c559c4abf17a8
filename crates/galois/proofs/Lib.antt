mod Linear
pub mod Laws
pub mod Powers
pub mod Tables
pub mod Instance
pub mod Elements
pub mod Words
pub mod LanePowers
