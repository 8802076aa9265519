pub mod Stages
pub mod Stops
pub mod Noted
pub mod Free
pub mod Adding
pub mod Logs
pub mod Graphs
