mod Typed
mod Refused
mod Told
mod Meant
