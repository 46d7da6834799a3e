pub mod Answered
pub mod Difference
