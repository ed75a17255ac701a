pub mod Messages
pub mod Datagrams
pub mod Written
pub mod Pieces
