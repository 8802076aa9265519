pub mod Numbers
pub mod Narrowing
pub mod Splices
pub mod Bytes
