pub mod Views
pub mod Placing
pub mod Readings
