mod Moments
mod Finding
mod Rooms
mod Counting
mod Entering
mod Returning
mod Library
mod Calling
