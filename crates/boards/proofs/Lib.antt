pub mod Laws
pub mod MaskLaws
pub mod Settled
pub mod SettlesWell
