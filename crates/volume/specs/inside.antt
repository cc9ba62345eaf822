-- What no reader of the public clauses needs.
pub mod Slowing
pub mod Written
