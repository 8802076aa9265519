pub mod Clusters
pub mod Saving
pub mod Sharing
pub mod Naming
pub mod ByName
