pub mod Asks
pub mod Right
pub mod Same
pub mod Unique
