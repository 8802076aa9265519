pub mod Opening
pub mod Ending
pub mod Functions
pub mod Slots
pub mod Behind
pub mod Setting
