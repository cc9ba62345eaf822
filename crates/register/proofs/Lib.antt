pub mod Prefixes
pub mod Coding
