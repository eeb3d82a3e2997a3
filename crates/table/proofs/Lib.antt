pub mod Head
pub mod Laws
pub mod WellMadePorts
