pub mod Causes
pub mod Walks
pub mod Answers
pub mod Calls
pub mod Found
pub mod Items
