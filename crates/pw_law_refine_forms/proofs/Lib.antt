pub mod Laws
pub mod Simulation
pub mod Kit
mod Bytes
mod Memory
mod Places
mod States
pub mod Access
mod Loads
mod Branches
pub mod Truths
mod Conditions
mod Logic
mod Compare
mod Lvalues
mod Assign
mod Cond
pub mod Arguments
mod Addresses
mod Globals
pub mod Owning
pub mod Symbols
mod Numbers
mod Compound
mod Steps
pub mod Strings
mod Copies
mod Advances
mod Sums
mod Members
mod Moves
mod Distances
mod PointerUpdates
mod Initialisers
pub mod AllForms
