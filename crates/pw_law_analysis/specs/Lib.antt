pub mod SummaryGraphs
pub mod SummaryLaws
pub mod PlacedGlobals
pub mod ImageTraffic
pub mod ImageRegisters
pub mod ImagePlaces
pub mod OwedLaws
pub mod AnalyserLaws
