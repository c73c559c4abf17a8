pub mod Prbs
pub mod Packet
pub mod Masks
pub mod Stream
