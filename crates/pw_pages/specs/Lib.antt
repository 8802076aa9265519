pub mod Bytes
pub mod Paged
