mod Running
mod Saying
