pub mod Tables
pub mod Steps
pub mod Lists
pub mod Loads
pub mod Once
pub mod Reaching
pub mod Orders
pub mod Ends
