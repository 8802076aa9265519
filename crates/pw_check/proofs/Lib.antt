pub mod ModuleLaws
pub mod KindsListed
pub mod RefusalLaws
