pub mod Groups
pub mod Behind
