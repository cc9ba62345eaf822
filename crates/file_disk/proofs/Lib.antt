pub mod CallByCall
pub mod Doing
pub mod Booking
pub mod Copying
pub mod Rooming
