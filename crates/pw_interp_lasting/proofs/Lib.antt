mod Acts
mod Expressions
mod Statements
mod Machines
