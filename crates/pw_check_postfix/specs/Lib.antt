pub mod Calls
pub mod Members
