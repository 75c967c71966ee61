pub mod Surface
pub mod Safety
