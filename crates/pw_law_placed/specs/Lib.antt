pub mod Twins
pub mod Alike
pub mod Laws
