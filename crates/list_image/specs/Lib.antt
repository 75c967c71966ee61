pub mod Image
pub mod Places
