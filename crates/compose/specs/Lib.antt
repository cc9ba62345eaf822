pub mod Journaled
pub mod Armed
pub mod Opening
pub mod Right
pub mod Runs
pub mod StepLaws
