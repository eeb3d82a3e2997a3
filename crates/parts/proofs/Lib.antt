pub mod Decimal
pub mod Hex
pub mod NumbersLaws
pub mod Words
