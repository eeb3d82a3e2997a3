pub mod Answers
pub mod Untouched
pub mod Second
pub mod Unique
