pub mod Taking
mod Reports
pub mod Sources
