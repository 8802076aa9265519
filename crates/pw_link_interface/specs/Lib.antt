pub mod FromObject
pub mod Interface
