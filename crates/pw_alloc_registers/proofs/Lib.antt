mod Choosing
mod Turns
mod Lawful
mod Barring
