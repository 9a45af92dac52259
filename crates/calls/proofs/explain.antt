pub mod Explained
pub mod Calls
pub mod Parts
