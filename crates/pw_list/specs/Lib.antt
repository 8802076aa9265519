pub mod DatabaseText
pub mod Gathering
pub mod Listing
