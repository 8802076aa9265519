pub mod Whole
pub mod Kept
pub mod Complete
