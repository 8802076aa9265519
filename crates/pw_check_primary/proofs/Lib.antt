pub mod Counting
pub mod Forms
