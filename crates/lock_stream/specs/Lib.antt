pub mod Progress
pub mod Source
pub mod Stream
