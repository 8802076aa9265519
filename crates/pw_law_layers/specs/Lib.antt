pub mod Rooms
pub mod Guarding
pub mod Whole
