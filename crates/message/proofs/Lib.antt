pub mod Writers
pub mod Sums
pub mod Messages
pub mod Answers
pub mod Datagrams
