pub mod Chain
pub mod Slots
pub mod Least
pub mod LinkRules
pub mod TreeRules
