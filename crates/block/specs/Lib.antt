pub mod Digest
pub mod Flags
