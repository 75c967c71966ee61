pub mod Laws
pub mod Pins
pub mod Safety
pub mod Wrong
