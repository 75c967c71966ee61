pub mod Looks
pub mod Laws
pub mod Reachable
pub mod Made
pub mod Examples
