pub mod Registers
pub mod Arithmetic
pub mod Operations
pub mod Selectable
