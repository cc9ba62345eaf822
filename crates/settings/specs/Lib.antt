pub mod Faults
pub mod FaultTexts
pub mod InRange
pub mod Kinds
pub mod Medium
pub mod Rules
pub mod Settings
