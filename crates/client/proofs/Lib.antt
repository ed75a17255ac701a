pub mod Wholes
pub mod Unchanged
pub mod Effects
pub mod Changes
pub mod Polling
