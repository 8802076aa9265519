pub mod Lists
pub mod Steps
pub mod Once
pub mod Counts
pub mod Placing
pub mod Members
pub mod IsGraph
pub mod Made
