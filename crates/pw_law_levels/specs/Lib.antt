pub mod Bodies
pub mod Sparing
