pub mod Codes
pub mod Places
pub mod Operators
pub mod Expressions
pub mod Statements
pub mod Modules
