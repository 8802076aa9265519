pub mod Endings
pub mod Answers
pub mod Evaluates
pub mod Frames
pub mod Functions
pub mod WorldViews
pub mod Views
