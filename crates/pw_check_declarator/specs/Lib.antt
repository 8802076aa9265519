pub mod Declaring
pub mod Views
