pub mod Mark
pub mod Readings
