pub mod Times
pub mod States
pub mod Decisions
