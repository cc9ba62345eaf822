pub mod Climbing
pub mod Routines
