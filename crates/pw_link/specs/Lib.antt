pub mod Layout
pub mod Linking
pub mod Sizes
pub mod Views
pub mod FromMilli
pub mod FromLinkInterface
