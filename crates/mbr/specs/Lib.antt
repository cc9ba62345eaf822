pub mod Faults
pub mod Table
