pub mod Cases
pub mod Given
pub mod Laws
pub mod Slots
pub mod Sums
pub mod WalkLaws
