pub mod Promises
pub mod Follows
pub mod Claim
pub mod Represent
pub mod Runs
pub mod Pins
pub mod Safety
