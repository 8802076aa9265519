mod Growing
mod Stopping
