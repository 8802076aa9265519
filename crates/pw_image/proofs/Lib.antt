pub mod ImageLaws
pub mod WritingLemmas
pub mod LoadLemmas
