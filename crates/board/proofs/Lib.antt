pub mod Blocks
pub mod Laws
pub mod Unique
pub mod Words
