pub mod Webs
pub mod Walking
