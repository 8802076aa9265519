pub mod Holding
pub mod Spanning
mod Pointing
mod Calling
pub mod Knowledge
