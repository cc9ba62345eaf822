-- What no reader of the public clauses needs.
pub mod Blocks
pub mod Driver
pub mod DuringACall
pub mod Invariant
pub mod Joint
pub mod Machine
pub mod Owners
pub mod Parts
pub mod PortRules
pub mod Rooms
pub mod TableCalls
pub mod TableView
