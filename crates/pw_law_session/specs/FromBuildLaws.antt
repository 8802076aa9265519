-- The definitions of pw_law_build that crates above name.
pub use Rattle.pw_law_build.specs.Complete
