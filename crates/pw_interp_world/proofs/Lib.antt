pub mod LayoutLemmas
pub mod NumberLemmas
pub mod LookupLemmas
