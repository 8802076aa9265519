pub mod Following
pub mod Linking
pub mod Words
