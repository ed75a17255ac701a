pub mod Leases
pub mod Bound
