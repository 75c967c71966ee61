pub mod Cases
pub mod Inner
pub mod Limits
