mod Cutting
mod Steps
mod Named
mod Refused
mod Roomier
