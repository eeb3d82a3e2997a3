pub mod Laws
pub mod Loss
pub mod Table
pub mod Rows
pub mod Unique
