pub mod Bounds
pub mod FromLawRefineCode
