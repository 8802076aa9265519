pub mod InRows
pub mod Joining
