pub mod Queues
pub mod Slots
