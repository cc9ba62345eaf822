pub mod Deeds
pub mod Numbers
pub mod Walks
pub mod Verdicts
pub mod inside
