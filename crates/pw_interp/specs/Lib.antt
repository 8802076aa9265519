pub mod Ends
pub mod Programs
pub mod Streaming
