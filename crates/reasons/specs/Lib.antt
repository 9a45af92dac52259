pub mod Reasons
pub mod Shape
pub mod Breaks
