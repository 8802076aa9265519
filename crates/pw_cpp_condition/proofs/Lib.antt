pub mod Complete
pub mod Marks
pub mod Sound
pub mod Stack
