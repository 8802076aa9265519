pub mod Effects
pub mod Judging
pub mod Names
pub mod OneEffect
