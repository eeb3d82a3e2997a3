pub mod Quick
pub mod SweepLaws
pub mod Swept
