mod Places
mod Agreement
mod Noted
mod Composition
mod Frames
mod Guarding
mod Holding
pub mod Roomless
pub mod Starts
pub mod Fitting
pub mod MapFrames
