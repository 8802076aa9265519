pub mod Clashes
pub mod InOrder
pub mod Moved
pub mod OneAnswer
pub mod Sorted
pub mod Twice
pub mod Unknown
