-- What no reader of the public clauses needs.
pub mod Entries
pub mod Naming
pub mod Opening
pub mod Log
pub mod Rows
pub mod Serving
pub mod Sizes
pub mod Slots
pub mod Sound
