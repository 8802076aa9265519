pub mod Fields
pub mod FieldFaults
pub mod FieldFrame
pub mod FieldLaws
pub mod FieldNames
