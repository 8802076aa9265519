pub mod CauseLemmas
