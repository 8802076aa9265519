pub mod Types
pub mod Loops
pub mod Shown
pub mod Turns
