pub mod OnCells
pub mod Passes
pub mod Tick
