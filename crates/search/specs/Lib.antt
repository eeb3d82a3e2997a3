pub mod Search
pub mod Seen
