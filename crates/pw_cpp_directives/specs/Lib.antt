pub mod Conditions
pub mod Directives
pub mod Groups
pub mod Obeying
