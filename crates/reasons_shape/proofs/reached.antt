pub mod Below
pub mod Meeting
pub mod Marks
