pub mod Functions
pub mod Object
pub mod Reading
