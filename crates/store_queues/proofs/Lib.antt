pub mod Counts
pub mod Laws
pub mod Rows
pub mod Slots
