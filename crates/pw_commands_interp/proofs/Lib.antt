mod BuildLemmas
mod LineLemmas
pub mod ToldLemmas
