pub mod Asked
pub mod Classes
pub mod Numerals
pub mod Parses
pub mod Said
pub mod Walks
pub mod Within
