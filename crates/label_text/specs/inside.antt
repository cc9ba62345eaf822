-- What no reader of the public clauses needs.
pub mod Reading
pub mod Spacing
