pub mod Fits
pub mod Given
