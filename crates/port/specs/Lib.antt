pub mod Entry
pub mod Changes
pub mod States
