mod Counted
mod Temps
