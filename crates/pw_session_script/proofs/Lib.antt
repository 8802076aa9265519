pub mod ReadingLemmas
pub mod CommandLemmas
