-- The definitions of pw_law_refine_code that crates above name.
pub use Rattle.pw_law_refine_code.specs.Functions
pub use Rattle.pw_law_refine_code.specs.Setting
