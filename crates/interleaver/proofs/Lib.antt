pub mod Columns
mod Rings
mod Positions
mod Cells
mod Filling
pub mod Blocks
mod Passing
pub mod Whole
pub mod Streams
pub mod Answered
pub mod BlockLists
pub mod Gathering
