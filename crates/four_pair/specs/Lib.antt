pub mod FourPair
pub mod LossLaws
pub mod Rows
pub mod Unique
