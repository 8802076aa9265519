pub mod Linked
pub mod Few
pub mod References
