pub mod Cells
pub mod Codes
pub mod Holds
pub mod Lent
pub mod Writes
