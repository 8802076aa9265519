pub mod Extending
pub mod Sizes
pub mod Keeping
pub mod Stepping
pub mod MarkLaws
pub mod LayingLaws
pub mod BranchLaws
