pub mod PutLemmas
pub mod FirstLemmas
pub mod SecondLemmas
pub mod SourceLemmas
