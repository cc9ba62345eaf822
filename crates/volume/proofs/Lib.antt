pub mod Untraced
pub mod Phases
pub mod Commands
pub mod Using
pub mod Steps
pub mod Disk
pub mod Ending
pub mod Going
pub mod Calling
pub mod Bytes
pub mod Content
pub mod Methods
pub mod Handles
pub mod Closing
pub mod Starting
pub mod Zeros
pub mod Sparsely
mod Common
