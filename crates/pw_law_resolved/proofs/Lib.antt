pub mod Symbols
pub mod Trees
pub mod Main
pub mod Whole
