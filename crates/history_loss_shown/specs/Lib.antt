pub mod Steady
pub mod Laws
pub mod Worked
pub mod Tied
