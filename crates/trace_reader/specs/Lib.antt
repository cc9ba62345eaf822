pub mod Known
pub mod Gaps
pub mod Readers
