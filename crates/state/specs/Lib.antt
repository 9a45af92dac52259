pub mod State
pub mod Down
pub mod Focus
pub mod Sound
pub mod ExampleStates
