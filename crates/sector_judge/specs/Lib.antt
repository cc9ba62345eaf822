pub mod Happened
pub mod Known
pub mod Verdicts
pub mod inside
