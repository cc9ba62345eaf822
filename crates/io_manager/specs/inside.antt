-- What no reader of the public clauses needs.
pub mod Admitting
pub mod Cancelling
pub mod Chains
pub mod Completion
pub mod Handover
pub mod Inside
pub mod Ordering
pub mod Queue
pub mod Removal
pub mod Sound
