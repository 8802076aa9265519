pub mod Views
pub mod Suffixes
pub mod Rests
