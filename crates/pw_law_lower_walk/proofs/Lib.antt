mod Expressions
pub mod Functions
pub mod Named
pub mod Folds
pub mod Both
pub mod Typed
mod Among
pub mod Made
