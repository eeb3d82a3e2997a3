pub mod ReadRewrites
pub mod WrittenReads
pub mod Boundary
pub mod Cases
