pub mod Pointers
pub mod Laid
pub mod Frames
pub mod States
pub mod Passes
