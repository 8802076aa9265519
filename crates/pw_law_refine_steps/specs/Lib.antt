pub mod Operations
pub mod Results
pub mod Stretches
pub mod FromLawRefine
