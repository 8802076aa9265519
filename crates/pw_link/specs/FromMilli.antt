-- The definitions of pw_milli that crates above name.
pub use Rattle.pw_milli.specs.Library
