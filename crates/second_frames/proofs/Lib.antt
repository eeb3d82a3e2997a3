pub mod Due
pub mod Held
pub mod Means
pub mod Right
pub mod SameLaws
pub mod Unique
