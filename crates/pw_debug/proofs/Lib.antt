pub mod Filling
pub mod Finding
