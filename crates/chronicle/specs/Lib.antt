pub mod Claims
pub mod History
pub mod Laws
