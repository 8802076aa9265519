pub mod Views
pub mod Branches
pub mod Heads
