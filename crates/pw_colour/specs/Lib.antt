pub mod Colours
pub mod Giving
