pub mod Bodies
pub mod Depth
pub mod Nests
pub mod Views
