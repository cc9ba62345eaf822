pub mod Acting
pub mod Arming
pub mod Book
pub mod Rooms
pub mod Staying
pub mod Taken
