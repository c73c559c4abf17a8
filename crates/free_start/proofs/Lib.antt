mod Pinned
pub mod FreeStart
pub mod FreeStream
