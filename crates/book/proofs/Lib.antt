pub mod Nodes
pub mod Trees
pub mod Calls
pub mod Theorem
pub mod Contracts
pub mod Examples
