mod Covering
mod Walking
pub mod Steps
mod Walks
mod Numbers
