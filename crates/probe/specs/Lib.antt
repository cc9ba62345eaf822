pub mod Exchange
pub mod Capacity
pub mod Probing
pub mod inside
