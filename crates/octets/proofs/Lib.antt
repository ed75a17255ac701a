pub mod Words
pub mod Runs
pub mod Items
pub mod Masks
