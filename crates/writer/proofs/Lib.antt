pub mod WrittenTable
pub mod WriteAnswer
pub mod FileBytes
pub mod WrittenFile
pub mod ReadFile
pub mod RoundTrip
pub mod Traces
pub mod Cases
