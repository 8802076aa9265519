-- The definitions of pw_object that crates above name.
pub use Rattle.pw_object.specs.declared.functions.ObjectFn
pub use Rattle.pw_object.specs.declared.object.Object
