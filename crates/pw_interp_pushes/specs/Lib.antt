pub mod Orders
pub mod Staying
