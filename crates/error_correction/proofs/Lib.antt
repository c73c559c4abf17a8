pub mod RootSearch
pub mod Zeros
pub mod RootCount
mod CorrectedBlock
mod ErrorValues
