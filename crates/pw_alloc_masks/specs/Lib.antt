pub mod Masks
pub mod Sets
