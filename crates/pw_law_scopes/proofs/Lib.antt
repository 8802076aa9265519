pub mod Visible
pub mod Shown
pub mod Located
pub mod Walked
pub mod Functions
