-- The plain data that a list of statements shows, and which statements are loops.
use Rattle.std.specs.Prelude.{Bool, true, false}
use Rattle.std.specs.declared.alloc.Global.{Global}
use Rattle.std.specs.declared.vec.Vec.{Vec}
use Rattle.pw_tree.specs.declared.stmt.Stmt.{Stmt}
use Rattle.pw_tree.specs.declared.stmt.Stmt as stmt
use Rattle.pw_types.specs.TypedTrees as tree
use Rattle.pw_typed.specs.declared.tree.TStmt.{TStmt}
use Rattle.pw_typed.specs.Views.{view_stmts}

abbrev pub view_items : Vec TStmt Global → tree.Statements
view_items all = view_stmts all.items

abbrev pub is_loop : Stmt → Bool
is_loop (stmt.While' n c b s) = true
is_loop (stmt.Do' n b s c) = true
is_loop (stmt.For' n a c e b s) = true
is_loop _ = false
