pub mod Closed
pub mod WalkLaws
pub mod RegionLaws
pub mod PartLaws
pub mod Beside
pub mod Gather
