pub mod Alike
pub mod Unique
