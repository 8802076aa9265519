pub mod Spelling
pub mod Numbers
pub mod Scopes
pub mod Shapes
pub mod Expressions
pub mod Statements
pub mod Laws
