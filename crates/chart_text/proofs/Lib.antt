pub mod Length
pub mod Drawn
