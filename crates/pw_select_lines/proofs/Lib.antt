pub mod Placeable
pub mod PlaceableArithmetic
pub mod PlaceableOps
