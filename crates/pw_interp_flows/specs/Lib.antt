pub mod Behind
pub mod Entering
pub mod Forms
pub mod Numbers
pub mod Switches
