pub mod Ill
pub mod Ranges
