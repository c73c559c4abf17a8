pub mod Branch
pub mod Column
pub mod Block
pub mod Call
pub mod Stream
pub mod Gathered
