pub mod Needs
pub mod Counts
