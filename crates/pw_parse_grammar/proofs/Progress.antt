pub mod Base
pub mod Expressions
pub mod Specifiers
pub mod Declarators
pub mod Declarations
pub mod Statements
