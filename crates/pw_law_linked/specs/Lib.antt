pub mod Settings
pub mod Standing
pub mod Whole
pub mod Given
pub mod InMemory
pub mod Relocations
