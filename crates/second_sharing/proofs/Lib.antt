pub mod First
pub mod Means
pub mod Port
pub mod Shared
pub mod Sharing
pub mod Unique
