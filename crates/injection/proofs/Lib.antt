pub mod Counting
pub mod Fewer
