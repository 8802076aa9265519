pub mod Few
pub mod FileNames
pub mod Limits
pub mod Modules
pub mod Reading
pub mod Views
