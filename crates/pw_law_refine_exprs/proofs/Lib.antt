mod Laws
mod Names
mod Returned
mod Passing
mod Called
mod ByName
mod ByValue
