mod Listing
mod Homing
mod Giving
