pub mod Definitions
pub mod Limits
pub mod Macros
