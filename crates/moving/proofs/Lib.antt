pub mod Seven
pub mod Nearer
pub mod Paths
