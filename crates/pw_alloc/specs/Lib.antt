pub mod Frames
pub mod Allocation
pub mod ValidPlaces
