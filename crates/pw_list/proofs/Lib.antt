pub mod Gathered
pub mod Listings
pub mod Ordered
