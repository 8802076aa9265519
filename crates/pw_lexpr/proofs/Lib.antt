pub mod ArgumentLaws
pub mod StepLaws
pub mod PlacingLaws
