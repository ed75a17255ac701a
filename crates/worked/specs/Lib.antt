pub mod Sent
pub mod Starred
pub mod OwnMessages
