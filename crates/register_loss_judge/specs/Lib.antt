pub mod Verdicts
pub mod Observed
pub mod inside
