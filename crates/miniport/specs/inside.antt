-- What no reader of the public clauses needs.
pub mod Apart
pub mod Memory
pub mod Recorded
pub mod Slots
pub mod Suiting
pub mod Planned
