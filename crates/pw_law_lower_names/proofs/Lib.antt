pub mod Backward
pub mod Expressions
pub mod Statements
pub mod Functions
