-- The definitions of pw_law_whole that crates above name.
pub use Rattle.pw_law_whole.specs.FromLayers
pub use Rattle.pw_law_whole.specs.Programs
