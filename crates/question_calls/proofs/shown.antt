pub mod Above
pub mod Shown
