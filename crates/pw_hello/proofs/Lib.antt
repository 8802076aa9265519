mod Typing
mod Reading
mod Running
