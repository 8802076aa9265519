pub mod SummaryLaws
pub mod SummaryFaults
pub mod WritingLemmas
pub mod Parts
