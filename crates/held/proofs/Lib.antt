pub mod Held
pub mod HeldFrames
pub mod Unique
