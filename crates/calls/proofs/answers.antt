pub mod Host
pub mod Answers
pub mod Updates
pub mod Starts
