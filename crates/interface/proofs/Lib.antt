pub mod Laws
pub mod Statement1C
pub mod Unique
