pub mod Surface
pub mod Chain
pub mod Claim
pub mod Safety
