pub mod Limits
pub mod Rules
pub mod Step
