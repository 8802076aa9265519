pub mod ParameterLaws
pub mod TableLaws
pub mod Lawful
