-- What no reader of the public clauses needs.
pub mod Beside
pub mod Carrying
pub mod Handshake
pub mod Options
pub mod Over
pub mod Session
pub mod Status
pub mod Streams
pub mod Standing
