pub mod FieldLaws
pub mod FieldLoops
pub mod FieldSteps
pub mod FileLaws
pub mod NameLaws
pub mod NameTables
