pub mod Lines
pub mod Spans
pub mod Telling
pub mod Syncs
pub mod Cells
pub mod Histories
pub mod Judging
