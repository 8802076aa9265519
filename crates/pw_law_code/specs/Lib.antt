pub mod LinkedAddresses
pub mod Lawful
