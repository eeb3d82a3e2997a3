pub mod Asks
pub mod Means
pub mod Ranges
