-- What no reader of the public clauses needs.
pub mod Cuts
pub mod Answers
