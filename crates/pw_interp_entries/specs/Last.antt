-- What stands behind the last `else` of an `if`, as the code has it.
use Rattle.std.specs.Prelude.{Option, Some, None}
use Rattle.std.specs.Borrow.{Bor}
use Rattle.pw_types.specs.TypedTrees.{Otherwise, NoElse, Else}
use Rattle.pw_typed.specs.Views.{view_stmt}
use Rattle.pw_typed.specs.declared.tree.TStmt.{TStmt}

abbrev pub view_last : Option (Bor TStmt) → Otherwise
view_last None = NoElse
view_last (Some last) = Else (view_stmt last.now)
