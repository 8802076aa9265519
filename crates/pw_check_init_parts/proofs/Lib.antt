mod CursorLemmas
mod MemberLemmas
mod ReachLemmas
pub mod ByteLemmas
pub mod FormLemmas
pub mod StringLemmas
pub mod WalkLemmas
