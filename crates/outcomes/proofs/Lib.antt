pub mod Latched
pub mod Open
pub mod Outcomes
