pub mod Lines
pub mod Digits
pub mod Numbers
pub mod Gaps
pub mod Forms
pub mod Records
pub mod Texts
pub mod Written
