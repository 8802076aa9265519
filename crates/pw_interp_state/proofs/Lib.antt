pub mod ObjectLemmas
pub mod ByteLemmas
pub mod FindingLemmas
pub mod MoveLemmas
pub mod AccessLaws
pub mod OperatorLaws
pub mod RunLaws
mod WordLemmas
