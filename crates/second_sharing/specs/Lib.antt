pub mod Shared
pub mod Unique
