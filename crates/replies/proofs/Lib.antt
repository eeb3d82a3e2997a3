pub mod Cold
pub mod OnLaws
