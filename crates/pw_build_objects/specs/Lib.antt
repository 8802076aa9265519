pub mod Programs
pub mod Kept
pub mod Choosing
pub mod Preparing
pub mod Showing
pub mod Counting
