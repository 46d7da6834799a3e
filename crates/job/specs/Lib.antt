pub mod Refusal
pub mod Layout
pub mod Open
