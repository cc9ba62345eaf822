-- What no reader of the public clauses needs.
pub mod Capacity
pub mod Exchange
