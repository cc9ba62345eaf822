-- What no reader of the public clauses needs: how the view is made of the table, and what is kept.
pub mod Invariant
pub mod Packets
pub mod Releases
pub mod TableCalls
pub mod TableView
pub mod View
