pub mod Regrafts
pub mod Climbs
