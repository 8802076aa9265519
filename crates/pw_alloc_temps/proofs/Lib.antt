mod Registers
pub mod Lists
pub mod Places
mod Entered
pub mod Lawful
