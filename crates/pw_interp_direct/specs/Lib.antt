pub mod Direct
pub mod Heights
pub mod Operands
