pub mod Added
pub mod Answered
