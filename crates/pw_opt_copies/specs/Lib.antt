pub mod Keeping
pub mod Originals
