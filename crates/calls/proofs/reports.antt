pub mod Slice
pub mod Changed
pub mod Picked
