pub mod Codes
pub mod Planned
pub mod Outcome
pub mod Sources
