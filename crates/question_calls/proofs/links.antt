pub mod Slots
pub mod Links
pub mod Siblings
pub mod Up
