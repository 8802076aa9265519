pub mod Views
pub mod Nests
pub mod Parsing
