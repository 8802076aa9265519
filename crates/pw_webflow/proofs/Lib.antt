pub mod DirectionLaws
mod OutlineLaws
