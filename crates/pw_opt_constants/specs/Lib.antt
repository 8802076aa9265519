pub mod Anything
pub mod Folding
