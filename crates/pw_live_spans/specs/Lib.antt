pub mod Spans
pub mod Walking
pub mod LivePoints
pub mod AreSpans
