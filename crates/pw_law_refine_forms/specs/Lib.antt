pub mod Accesses
pub mod Operands
pub mod Calling
