pub mod Boxes
pub mod Exact
