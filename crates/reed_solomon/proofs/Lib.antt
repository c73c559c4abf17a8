pub mod Codewords
pub mod Distance
pub mod BitDistance
pub mod Marks
pub mod MarkedDistance
pub mod LongDivision
mod SparseMultiple
mod SparseDivision
mod GroupDivision
mod Residue
mod Erasures
mod Completeness
mod Values
mod Soundness
mod Outcome
mod FiniteSearch
pub mod Laws
