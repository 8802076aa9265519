pub mod Bounds
pub mod Kept
pub mod Parts
pub mod Ranges
pub mod Within
