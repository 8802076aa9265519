pub mod Entering
pub mod Last
pub mod Looping
pub mod Orders
