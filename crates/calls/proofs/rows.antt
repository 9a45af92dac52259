pub mod Outcomes
pub mod Clashes
pub mod Numbers
pub mod Given
pub mod Calls
