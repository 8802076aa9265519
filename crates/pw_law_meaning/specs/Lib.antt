pub mod FromLawWhole
pub mod Meaning
