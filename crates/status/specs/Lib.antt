pub mod Kinds
pub mod Status
