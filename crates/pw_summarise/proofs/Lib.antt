pub mod Orders
pub mod References
pub mod WeightLaws
pub mod ShapeLaws
pub mod LawfulLaws
pub mod UniqueLaws
pub mod MakingLaws
