mod Callers
mod Entering
mod Finishing
mod Rooms
mod Standings
mod Transferring
