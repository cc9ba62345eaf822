pub mod Asked
pub mod Calls
pub mod Copies
pub mod Failing
pub mod Noting
pub mod Transfers
