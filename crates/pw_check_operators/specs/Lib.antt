pub mod Choices
pub mod Compounds
pub mod Promotions
