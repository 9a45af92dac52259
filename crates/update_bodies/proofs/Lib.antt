pub mod Bodies
pub mod Same
