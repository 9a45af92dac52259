pub mod Elsewhere
pub mod Here
