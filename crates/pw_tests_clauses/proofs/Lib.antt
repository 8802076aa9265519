pub mod Registers
pub mod Values
