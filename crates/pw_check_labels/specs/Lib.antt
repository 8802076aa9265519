pub mod Gathered
pub mod Views
