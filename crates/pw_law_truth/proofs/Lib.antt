pub mod Numbers
pub mod Places
pub mod Called
pub mod Lines
pub mod Bytes
