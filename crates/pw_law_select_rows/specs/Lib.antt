pub mod Straight
pub mod Making
pub mod Frames
pub mod Places
pub mod Results
pub mod Computing
pub mod Scalars
pub mod Units
