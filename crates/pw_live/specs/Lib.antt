pub mod Liveness
pub mod Points
pub mod Interference
