pub mod Shown
pub mod TypedLoop
