pub mod Examples
pub mod Boxes
pub mod Whole
pub mod Exact
