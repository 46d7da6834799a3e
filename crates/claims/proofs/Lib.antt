pub mod Bus
pub mod BusCases
pub mod Cases
pub mod Claim
pub mod Job
pub mod Hits
pub mod Zero
