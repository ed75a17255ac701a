pub mod Replies
pub mod Named
