pub mod Options
pub mod Readings
pub mod Stored
