pub mod FromAnalysis
pub mod FromLayers
pub mod Programs
