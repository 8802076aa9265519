pub mod Summarises
pub mod Tallies
