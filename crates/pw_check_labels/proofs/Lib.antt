pub mod Steps
pub mod Gathering
pub mod LabelNames
pub mod LabelLaws
