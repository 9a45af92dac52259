pub mod Answers
pub mod Reading
pub mod Links
pub mod TreeState
pub mod Filter
