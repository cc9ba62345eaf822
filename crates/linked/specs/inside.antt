-- What no reader of the public clauses needs.
pub mod Chain
pub mod Links
pub mod Places
