pub mod RunState
pub mod RunPass
