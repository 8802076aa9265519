pub mod Ranges
pub mod StartLaws
mod ShapeLemmas
mod WordLaws
