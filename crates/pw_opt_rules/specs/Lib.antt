pub mod Flat
pub mod Rows
pub mod Rewriting
pub mod Constants
pub mod Copies
pub mod Dead
pub mod Optimised
