mod Pieces
pub mod Laws
pub mod Histories
pub mod Reporting
