pub mod ContentLemmas
pub mod ListLemmas
pub mod MeasureLemmas
pub mod RecordLemmas
mod SizeLemmas
pub mod ViewLemmas
pub mod SpineLaws
