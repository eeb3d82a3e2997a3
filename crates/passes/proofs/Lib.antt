pub mod FlagSigns
pub mod Judging
pub mod Moving
pub mod Settling
pub mod Ticking
pub mod MovesWell
