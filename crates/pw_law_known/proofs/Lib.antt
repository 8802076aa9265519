pub mod Nearest
pub mod Known
