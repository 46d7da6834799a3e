pub mod Claims
pub mod Inner
