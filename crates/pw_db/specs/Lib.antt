pub mod Database
pub mod Limits
