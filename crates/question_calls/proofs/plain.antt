pub mod Own
pub mod Focus
pub mod Rows
pub mod Above
pub mod Listed
pub mod Neighbours
