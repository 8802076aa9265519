pub mod PhaseLaws
pub mod WantLemmas
