pub mod Bits
pub mod Count
pub mod Every
pub mod Ladder
pub mod Places
pub mod Entries
pub mod Tests
pub mod Total
