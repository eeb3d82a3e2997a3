pub mod Decimal
pub mod Hex
pub mod Numbers
pub mod Words
