pub mod Copies
pub mod Library
pub mod Locals
