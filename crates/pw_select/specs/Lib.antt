pub mod Selection
pub mod Selectable
