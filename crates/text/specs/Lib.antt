pub mod Room
pub mod Unique
