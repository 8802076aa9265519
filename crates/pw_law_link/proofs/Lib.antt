pub mod Fitting
pub mod Kept
pub mod Lawful
pub mod Memory
pub mod OneAnswer
pub mod Ordered
pub mod Places
pub mod Starting
