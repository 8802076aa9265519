pub mod Steps
pub mod SelectableLaws
pub mod PlaceableFn
