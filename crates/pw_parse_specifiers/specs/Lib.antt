pub mod Enumerators
pub mod Views
