pub mod Book
pub mod Demand
pub mod Promises
