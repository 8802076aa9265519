mod Levels
pub mod Paths
mod Beside
