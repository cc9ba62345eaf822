pub mod Starting
pub mod Cells
pub mod Histories
pub mod Judging
