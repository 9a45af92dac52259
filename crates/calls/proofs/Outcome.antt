pub mod Codes
pub mod Nodes
pub mod Room
pub mod Fits
