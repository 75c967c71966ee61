pub mod Play
