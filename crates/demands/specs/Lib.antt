pub mod Numbers
pub mod Unbroken
