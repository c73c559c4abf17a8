pub mod Text
pub mod Read
pub mod Move
pub mod Steps
