pub mod Answers
pub mod Filter
pub mod TreeState
pub mod Examples
