pub mod Makers
pub mod Calls
pub mod IsLiveness
