pub mod Outcomes
pub mod Clients
pub mod Resets
pub mod Taken
pub mod Polls
pub mod Changes
pub mod Lookups
pub mod Calls
