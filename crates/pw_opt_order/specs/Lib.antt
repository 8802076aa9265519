pub mod Rises
pub mod Order
pub mod Reads
