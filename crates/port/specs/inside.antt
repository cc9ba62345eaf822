-- What no reader of the public clauses needs.
pub mod Cancelling
pub mod Covered
pub mod Invariant
pub mod Order
pub mod Releases
pub mod TableCalls
pub mod TableView
