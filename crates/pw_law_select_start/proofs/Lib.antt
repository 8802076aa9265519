pub mod Globals
pub mod Starting
