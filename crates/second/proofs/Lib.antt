pub mod Answers
pub mod Second
pub mod Unique
