-- What pointers point to.
use Rattle.pw_types.specs.TypeTrees.{QType, Qualified}
use Rattle.pw_types.specs.Views.{view_type}
use Rattle.pw_check_operands.specs.declared.targets.Target.{Target}

abbrev pub view_target : Target → QType
view_target t = Qualified (view_type t.ty.now) t.constant t.volatile
