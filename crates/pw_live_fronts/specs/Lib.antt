pub mod Blocks
pub mod Flowing
pub mod Exposing
pub mod LiveFronts
