-- The definitions of pw_law_select_ops that crates above name.
pub use Rattle.pw_law_select_ops.specs.Operations
