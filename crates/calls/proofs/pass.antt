pub mod Faults
pub mod Read
pub mod Steps
pub mod Going
pub mod Rows
pub mod Causes
