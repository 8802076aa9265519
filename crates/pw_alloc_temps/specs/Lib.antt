pub mod Weights
pub mod Registers
pub mod Temporaries
