pub mod Outcome
pub mod Calls
pub mod Tlv
