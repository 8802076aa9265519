pub mod Bodies
pub mod Ends
pub mod Orders
pub mod Waiting
pub mod Standing
pub mod Stepping
pub mod Streaming
