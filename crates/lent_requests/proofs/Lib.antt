pub mod Maps
pub mod Laws
