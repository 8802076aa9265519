pub mod Views
pub mod Frames
pub mod Moves
pub mod Nulls
