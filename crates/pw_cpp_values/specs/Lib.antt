pub mod Arithmetic
pub mod Operands
