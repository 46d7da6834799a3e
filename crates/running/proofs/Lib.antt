pub mod Stops
pub mod RunAnswer
pub mod RunPlaces
