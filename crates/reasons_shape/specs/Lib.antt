pub mod Reached
pub mod Rules
