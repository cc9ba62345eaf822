pub mod Medium
pub mod Sparse
pub mod SparseDisk
pub mod VecDisk
pub mod inside
