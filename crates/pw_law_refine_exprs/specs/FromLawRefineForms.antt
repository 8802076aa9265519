-- The definitions of pw_law_refine_forms that crates above name.
pub use Rattle.pw_law_refine_forms.specs.Accesses
