-- What no reader of the public clauses needs.
pub mod Invariant
pub mod Noted
pub mod Rooms
