pub mod FlowFile
pub mod Reading
pub mod Marks
