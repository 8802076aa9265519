mod Noting
mod Forgetting
