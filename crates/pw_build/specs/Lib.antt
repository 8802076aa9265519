pub mod Builds
pub mod FromPhaseOne
pub mod Full
pub mod Phases
pub mod Stores
