pub mod Hits
pub mod Known
