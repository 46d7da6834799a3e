pub mod Text
pub mod Pen
