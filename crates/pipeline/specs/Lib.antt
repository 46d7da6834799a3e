pub mod Step
pub mod Cases
