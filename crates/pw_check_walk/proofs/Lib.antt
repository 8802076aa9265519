pub mod Points
pub mod WalkLaws
pub mod KindLaws
pub mod BindLaws
pub mod CallLaws
pub mod FindingLaws
mod KeepLemmas
pub mod Turns
