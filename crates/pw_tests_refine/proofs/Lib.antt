mod Examples
mod ExampleStates
mod ShortBytes
mod NoElements
mod Accepted
mod Resolved
mod Rows
