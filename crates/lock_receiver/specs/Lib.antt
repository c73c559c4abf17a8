pub mod Take
pub mod History
