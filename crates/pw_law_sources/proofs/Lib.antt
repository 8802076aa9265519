pub mod RefusedText
pub mod SourceLemmas
pub mod ShownLemmas
pub mod FirstLemmas
pub mod FaultLemmas
pub mod PutLemmas
pub mod LeftLemmas
