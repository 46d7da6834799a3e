pub mod Accepted
pub mod Calls
pub mod Pass
pub mod Room
