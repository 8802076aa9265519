pub mod Lists
pub mod Rooms
pub mod Once
