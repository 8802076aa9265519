pub mod Logs
pub mod Alike
pub mod Counted
pub mod Told
