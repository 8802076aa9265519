mod Opening
pub mod Pushing
pub mod Staying
pub mod Stopping
