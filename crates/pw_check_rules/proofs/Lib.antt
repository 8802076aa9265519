pub mod Booleans
pub mod SampleLaws
pub mod CheckLaws
pub mod CompatibleLaws
pub mod AssignableLaws
pub mod OperandLaws
