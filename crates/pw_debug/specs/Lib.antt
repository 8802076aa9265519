pub mod Knowing
pub mod Holding
pub mod Walk
