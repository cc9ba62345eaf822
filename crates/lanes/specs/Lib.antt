pub mod Laws
pub mod Queue
