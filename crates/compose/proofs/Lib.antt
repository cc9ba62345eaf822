pub mod Removed
pub mod Lawful
pub mod FirstView
pub mod FirstSectors
pub mod Faulting
pub mod StepLaws
pub mod OpensAsTold
pub mod Journaled
pub mod JournaledStep
pub mod JournaledOthers
pub mod JournaledKept
pub mod JournaledArmed
pub mod Armed
pub mod KeepsLabels
pub mod Memory
mod Common
