pub mod PlaceViews
pub mod Members
pub mod Items
pub mod Strings
pub mod FilledViews
