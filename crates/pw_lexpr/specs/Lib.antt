pub mod Finish
pub mod Homes
pub mod Placing
