pub mod MarkLaws
pub mod PairLoops
pub mod PlaceLoops
pub mod PlacingLaws
