mod HardInput
pub mod SoftInput
pub mod Pieces
