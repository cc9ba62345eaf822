-- What no reader of the public clauses needs.
pub mod Chunks
pub mod Sparse
pub mod SparseDisk
