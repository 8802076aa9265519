pub mod CallGraphs
pub mod Sound
