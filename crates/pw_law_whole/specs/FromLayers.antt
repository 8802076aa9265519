-- The definitions of pw_law_layers that crates above name.
pub use Rattle.pw_law_layers.specs.Whole
