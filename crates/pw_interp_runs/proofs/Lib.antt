mod FrameLemmas
pub mod RunLemmas
mod TypedLemmas
