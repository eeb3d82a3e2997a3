pub mod Boards
pub mod Unique
