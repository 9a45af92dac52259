pub mod Pass
pub mod Outcome
pub mod Explain
pub mod Holds
pub mod Cases
