pub mod NotWrong
pub mod Operators
pub mod Constants
pub mod Calling
pub mod Symbols
pub mod Trees
pub mod Runs
pub mod Programs
