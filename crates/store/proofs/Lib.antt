pub mod Saved
pub mod Written
