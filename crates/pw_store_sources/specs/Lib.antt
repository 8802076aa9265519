pub mod Bytes
pub mod Headers
pub mod Names
pub mod Outputs
pub mod Sources
pub mod Views
