pub mod Words
pub mod Addresses
pub mod Runs
pub mod Items
pub mod Codes
