pub mod Decode
pub mod EveryHistory
pub mod Lent
pub mod Marks
pub mod Spelled
