pub mod Visible
pub mod Log
