pub mod Third
pub mod Unique
