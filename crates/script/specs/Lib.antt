pub mod Events
pub mod Faults
pub mod Printing
pub mod Script
pub mod Trace
pub mod inside
