pub mod Namers
pub mod Words
