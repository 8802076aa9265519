pub mod Shown
pub mod Pairs
