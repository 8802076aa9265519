pub mod ModuleLemmas
pub mod Exact
pub mod Order
pub mod ReadingLemmas
pub mod NameLemmas
