pub mod Runs
pub mod Lines
pub mod Faults
pub mod inside
