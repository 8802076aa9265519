pub mod Views
pub mod Names
pub mod Told
pub mod Lookups
