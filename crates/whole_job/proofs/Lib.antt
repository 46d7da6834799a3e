pub mod Cases
pub mod Filled
pub mod Given
