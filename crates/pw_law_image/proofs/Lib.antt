mod Entries
mod ImageFaults
