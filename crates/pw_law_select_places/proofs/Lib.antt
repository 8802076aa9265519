pub mod Frame
pub mod Memory
pub mod Places
pub mod Objects
pub mod Rows
