pub mod Ill
