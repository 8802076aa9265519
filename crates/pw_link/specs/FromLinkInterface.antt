-- The definitions of pw_link_interface that crates above name.
pub use Rattle.pw_link_interface.specs.FromObject.Object
pub use Rattle.pw_link_interface.specs.FromObject.ObjectFn
