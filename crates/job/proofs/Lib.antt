pub mod First
pub mod Entries
pub mod Starts
pub mod Joined
pub mod Accepted
pub mod Part
