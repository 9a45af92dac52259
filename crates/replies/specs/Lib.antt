pub mod Replies
pub mod Plain
