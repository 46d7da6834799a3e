pub mod Paths
pub mod Cases
