pub mod RunLemmas
pub mod StopLemmas
pub mod NeededLemmas
pub mod RunningLemmas
pub mod ObeysLemmas
pub mod ShowingLemmas
pub mod AnalysingLemmas
pub mod OthersLemmas
