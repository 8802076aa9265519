-- The definitions of pw_law_refine that crates above name.
pub use Rattle.pw_law_refine.specs.Activations
pub use Rattle.pw_law_refine.specs.Calls
pub use Rattle.pw_law_refine.specs.Containing
pub use Rattle.pw_law_refine.specs.Lowerable
pub use Rattle.pw_law_refine.specs.Matching
pub use Rattle.pw_law_refine.specs.Standing
pub use Rattle.pw_law_refine.specs.StatementParts
pub use Rattle.pw_law_refine.specs.Statements
pub use Rattle.pw_law_refine.specs.Whole
