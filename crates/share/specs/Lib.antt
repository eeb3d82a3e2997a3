pub mod Cases
pub mod Given
pub mod Slots
pub mod Share
pub mod Walk
