pub mod Adding
pub mod Walking
pub mod Saying
