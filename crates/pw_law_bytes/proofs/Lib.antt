pub mod Objects
pub mod Running
pub mod Noted
