pub mod GraphLaws
pub mod Turns
pub mod ContentLaws
pub mod MarkLaws
pub mod WritingLemmas
pub mod FlowFaults
