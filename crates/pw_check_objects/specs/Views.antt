-- The plain data that initialisers of locals show.
use Rattle.std.specs.Prelude.{List}
use Rattle.pw_types.specs.TypeTrees.{QType}
use Rattle.pw_types.specs.TypedTrees as tree
use Rattle.pw_types.specs.Views.{view_qtype}
use Rattle.pw_typed.specs.Views.{view_initialisers}
pub use Rattle.pw_check_state.specs.Views.{view_made}
use Rattle.pw_check_objects.specs.declared.locals.Made.{Made}

abbrev pub view_local_made : Made → QType × List tree.Initialiser
view_local_made m = (view_qtype m.ty, view_initialisers m.initialisers.items)
