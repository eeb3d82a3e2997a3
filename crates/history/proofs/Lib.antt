pub mod EveryHistory
pub mod LentLaws
pub mod MarkLaws
pub mod Plain
pub mod Running
pub mod Spelled
pub mod States
