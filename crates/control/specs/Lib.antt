pub mod ByMask
pub mod Control
