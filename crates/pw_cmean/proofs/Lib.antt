mod SanityRows
pub mod ActLaws
pub mod TreeLaws
pub mod Keeping
pub mod Bounding
pub mod RunLaws
pub mod NodeTypes
pub mod Judged
pub mod ValueLaws
pub mod WordLaws
pub mod SoundActs
pub mod SoundOperators
pub mod SoundTrees
pub mod SoundRuns
