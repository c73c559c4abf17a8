pub mod Totals
pub mod Season
pub mod Progress
