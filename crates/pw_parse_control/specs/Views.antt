-- What the values of the rules of selections and loops show. `.._first` is an item before the rest of its list.
use Rattle.std.specs.Prelude.{Option, Some, None}
use Rattle.std.specs.declared.alloc.Global.{Global}
use Rattle.std.specs.declared.boxed.Box.{Box}
use Rattle.pw_tree.specs.Trees as tree
use Rattle.pw_tree.specs.Views.{view_expr, view_stmt}
use Rattle.pw_parse_cursor.specs.PartViews.{view_boxed}
use Rattle.pw_tree.specs.declared.expr.Expr.{Expr}
use Rattle.pw_tree.specs.declared.stmt.ElseIf.{ElseIf}
use Rattle.pw_tree.specs.declared.stmt.Stmt.{Stmt}

abbrev pub else_if_first : ElseIf → tree.Alternative → tree.Alternative
else_if_first e more = tree.ElseIf e.token (view_expr e.condition) (view_stmt e.chosen) more

abbrev pub view_boxed_stmt : Box Stmt Global → tree.Stmt
view_boxed_stmt b = view_stmt b.value

abbrev pub view_optional_box : Option (Box Expr Global) → Option tree.Expr
view_optional_box None = None
view_optional_box (Some b) = Some (view_boxed b)
