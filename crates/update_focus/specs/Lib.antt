pub mod Numbers
pub mod Ways
