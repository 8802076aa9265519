pub mod Names
pub mod Cases
pub mod Scoping
pub mod Nesting
pub mod EntityViews
pub mod LinkedViews
