pub mod Deeds
pub mod Sides
pub mod Passes
pub mod Laws
