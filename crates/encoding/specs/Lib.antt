pub mod Encoding
pub mod Cases
pub mod Claims
