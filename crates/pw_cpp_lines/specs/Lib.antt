pub mod Heads
pub mod Lines
pub mod Passing
pub mod Walking
