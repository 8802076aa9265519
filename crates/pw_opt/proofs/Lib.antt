mod Sound
mod Listing
mod Alone
mod Homes
