pub mod Bytes
pub mod Named
pub mod Placing
pub mod Plain
pub mod Seen
pub use Rattle.pw_store_sources.specs.Headers
pub use Rattle.pw_store_sources.specs.Names
pub use Rattle.pw_store_sources.specs.Outputs
