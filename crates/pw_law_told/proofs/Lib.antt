pub mod Far
pub mod Follows
pub mod Rooms
pub mod Values
pub mod Pauses
pub mod Roomless
