pub mod CodeLaws
pub mod Laws
pub mod LentLaws
pub mod Pass
pub mod Round
pub mod Single
pub mod Writes
