pub mod Coding
pub mod Places
pub mod Standing
pub mod Turning
pub mod Calling
pub mod Answering
pub mod Telling
