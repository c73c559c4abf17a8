mod Table
mod LineRuns
pub mod Fronts
pub mod Counting
pub mod Answers
pub mod AsWritten
pub mod Moving
