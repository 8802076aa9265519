pub mod FrameLemmas
pub mod MadeLaws
