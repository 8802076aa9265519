mod Declarations
mod Initialisers
mod Modules
mod Phrases
mod Spending
mod Statements
mod Tokens
mod Words
