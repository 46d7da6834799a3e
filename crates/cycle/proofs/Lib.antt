pub mod Slots
pub mod Read
pub mod Starts
