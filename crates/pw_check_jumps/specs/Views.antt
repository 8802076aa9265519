-- The plain data that expressions in boxes show, where they may be left out.
use Rattle.std.specs.Prelude.{Option, None, Some}
use Rattle.std.specs.declared.alloc.Global.{Global}
use Rattle.std.specs.declared.boxed.Box.{Box}
use Rattle.pw_check_state.specs.Views.{view_node}
use Rattle.pw_typed.specs.declared.tree.TExpr.{TExpr}
use Rattle.pw_types.specs.TypedTrees.{Expression}

abbrev pub view_held : Option (Box TExpr Global) → Option Expression
view_held None = None
view_held (Some e) = Some (view_node e)
