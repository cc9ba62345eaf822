pub mod Covering
pub mod Searching
