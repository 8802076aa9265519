pub mod Places
pub mod Objects
pub mod Rows
