pub mod Clients
pub mod CommandLine
pub mod Faults
pub mod Trace
