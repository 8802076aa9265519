mod CodeNames
mod LineNames
pub mod Mains
pub mod Modules
pub mod Names
mod Programs
pub mod Tests
pub mod Twice
