pub mod Layout
pub mod View
pub mod Stored
pub mod Put
pub mod Filled
