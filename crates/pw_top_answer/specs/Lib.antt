pub mod Answers
pub mod Lines
pub mod Effects
pub mod Outcomes
