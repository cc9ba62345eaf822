-- What no reader of the public clauses needs.
pub mod Checked
pub mod Course
pub mod Cut
pub mod Faults
pub mod Reading
pub mod Telling
pub mod Saying
