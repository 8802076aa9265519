-- The definitions of pw_lower_forms that crates above name.
pub use Rattle.pw_lower_forms.specs.Homes.{view_home}
