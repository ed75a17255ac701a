-- What the contracts of `clock` mean, from document 01's sections on src/time.rs and src/rand.rs.
pub mod Durations
pub mod Moments
pub mod Clocks
pub mod Waits
pub mod Generator
