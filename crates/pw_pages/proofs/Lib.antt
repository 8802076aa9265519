pub mod Chunks
pub mod InWords
pub mod Memory
pub mod Overwriting
