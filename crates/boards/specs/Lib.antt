pub mod Masks
pub mod Sharing
