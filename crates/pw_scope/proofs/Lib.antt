pub mod Places
pub mod Visibility
