pub mod Agreeing
mod Colouring
mod Graphs
mod Linking
mod Names
mod Objects
mod Ordering
mod Payloads
mod Reaching
mod Rows
mod Summaries
pub mod Telling
mod Webs
