pub mod Faults
pub mod Tallies
pub mod inside
