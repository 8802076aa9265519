pub mod Operations
pub mod Webs
