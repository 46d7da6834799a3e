pub mod Refusal
pub mod Number
pub mod Layout
pub mod Rules
pub mod Body
pub mod Claims
pub mod Part
