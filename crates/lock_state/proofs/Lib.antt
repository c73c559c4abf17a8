pub mod Table
pub mod Locks
