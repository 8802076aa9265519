pub mod Rising
pub mod Kinds
pub mod Names
pub mod Start
pub mod Contents
pub mod Faults
pub mod Places
