pub mod Makers
pub mod Masks
pub mod Knowing
