pub mod Once
mod Registers
mod Callers
mod Climbing
mod Telling
mod Roots
mod Sharing
mod Naming
mod Greatest
mod Making
