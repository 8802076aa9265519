pub mod Linking
pub mod Entries
