pub mod Drawn
pub mod Parts
pub mod Head
pub mod WellMade
