pub mod FromMeaning
pub mod FromBuildLaws
pub mod Full
pub mod Whole
pub mod History
pub mod FromSession
