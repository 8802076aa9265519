pub mod Causes
pub mod Operations
pub mod Reading
