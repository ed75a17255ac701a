pub mod Order
pub mod Bounds
pub mod Doublings
pub mod Timers
pub mod Decisions
