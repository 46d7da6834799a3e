pub mod Pieces
pub mod Right
pub mod Pens
