pub mod Leading
pub mod Lawful
pub mod Words
pub mod Names
pub mod Bounded
pub mod Designators
pub mod OwnNames
