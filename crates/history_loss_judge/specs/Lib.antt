pub mod Histories
pub mod Verdicts
pub mod Laws
pub mod inside
