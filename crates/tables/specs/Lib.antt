pub mod Entries
pub mod Table
pub mod Tables
pub mod Applied
pub mod Manual
pub mod Changes
pub mod Lookups
