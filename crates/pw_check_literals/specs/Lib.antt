pub mod Integers
pub mod Characters
pub mod Narrow
