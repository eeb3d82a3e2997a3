pub mod InRange
pub mod Stored
