pub mod Shown
pub mod Levels
pub mod Nodes
