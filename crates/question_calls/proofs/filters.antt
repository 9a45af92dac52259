pub mod Common
pub mod Near
pub mod Clipped
