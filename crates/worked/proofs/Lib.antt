pub mod RoundTrips
pub mod Nameless
