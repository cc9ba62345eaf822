-- What no reader of the public clauses needs.
pub mod Journal
pub mod Naming
pub mod Pooling
