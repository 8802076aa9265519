pub mod Texts
pub mod Globals
pub mod Places
pub mod Roomless
