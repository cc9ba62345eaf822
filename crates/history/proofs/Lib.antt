pub mod Telling
pub mod Waiting
pub mod Blanking
pub mod Fitting
