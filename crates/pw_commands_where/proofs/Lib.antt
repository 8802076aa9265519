pub mod LookLemmas
pub mod WhereLemmas
