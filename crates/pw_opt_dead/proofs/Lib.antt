mod Marking
mod Walking
