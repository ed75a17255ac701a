pub mod Awaited
pub mod Judged
