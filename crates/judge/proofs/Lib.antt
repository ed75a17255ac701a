pub mod Judging
pub mod Verdicts
