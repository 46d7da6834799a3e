pub mod Halves
pub mod Placed
