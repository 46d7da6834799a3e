pub mod Entries
pub mod Elsewhere
pub mod Joined
pub mod Numbers
pub mod Enums
