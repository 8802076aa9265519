pub mod Parts
pub mod Given
pub mod Folds
pub mod Named
