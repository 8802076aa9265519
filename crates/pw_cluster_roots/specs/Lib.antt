pub mod Rounds
pub mod Inner
