pub mod Plan
pub mod Kids
