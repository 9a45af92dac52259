pub mod Grafts
pub mod Trees
pub mod Kids
pub mod Focus
