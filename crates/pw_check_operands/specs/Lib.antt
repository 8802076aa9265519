pub mod Targets
pub mod Pointers
