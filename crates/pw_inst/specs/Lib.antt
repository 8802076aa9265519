pub mod Computing
pub mod Fields
pub mod InstructionTable
pub mod Limits
pub mod Listing
pub mod Registers
pub mod Setting
