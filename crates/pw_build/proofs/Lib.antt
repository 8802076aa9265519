pub mod PhaseLemmas
pub mod BuildLaws
