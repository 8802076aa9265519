mod Lists
mod Values
mod Numbers
mod Objects
mod Starts
mod Trails
mod Commands
mod Running
mod Following
pub mod Directives
mod Traffic
pub mod Banks
mod Likeness
mod Stepping
mod Webless
pub mod Elements
mod Names
mod Tame
mod Memory
mod Steps
mod Registers
mod Globals
mod WebReads
mod WebWrites
mod Webs
mod Calls
mod ByName
mod Library
mod StoresByName
mod Runs
pub mod Entered
mod Saving
mod Callees
mod Standing
mod Edges
mod Operations
mod Slots
mod Entering
mod Calling
mod Bytes
mod Leaving
mod Returning
mod Starting
mod Refining
